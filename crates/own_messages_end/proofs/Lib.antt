mod Working
mod Measure
