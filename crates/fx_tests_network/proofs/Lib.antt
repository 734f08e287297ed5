mod TwoMeters
mod Chain
mod Doublings
