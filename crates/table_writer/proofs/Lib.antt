mod Texts
mod Lengths
