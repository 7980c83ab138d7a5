-- What the proof of the reader uses.
mod Reading
