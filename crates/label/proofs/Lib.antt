mod Hex
mod SimLines
