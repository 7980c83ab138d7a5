-- What the proof of the search uses.
mod Floored
mod Falls
mod Attempt
mod Searching
