-- What both files use.
mod Chunks
