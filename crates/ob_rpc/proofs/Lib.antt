mod Ids
mod Lines
mod Members
mod Parts
mod Pieces
