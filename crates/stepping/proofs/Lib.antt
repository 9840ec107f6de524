mod Comparing
mod Framing
mod Lifting
mod Marking
