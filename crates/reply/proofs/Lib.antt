mod Digits
mod Lines
