mod Probes
mod Lines
mod Edges
