mod Pieces
mod LineEnds
mod Behind
mod Stream
mod MemoryExamples
