mod Blocks
mod Pieces
