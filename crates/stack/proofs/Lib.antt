mod Stacking
mod Housing
