mod Places
mod Numbers
mod Absorbing
