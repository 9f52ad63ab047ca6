mod Bits
mod Masks
