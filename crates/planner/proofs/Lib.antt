mod Rounds
mod Trying
mod Pages
mod FullReading
mod Saves
mod Parting
