-- What the proofs of `tight` and `cycle_back` use.
mod Ahead
mod Stored
mod Marks
mod Course
mod Step
mod CourseEnd
