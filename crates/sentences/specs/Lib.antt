-- The loop in sentences: the sentence of a step, the text of a trail and a loop, how it is read back, and the contract of explaining; `inner` is what inner functions promise each other.
pub mod Decimal
pub mod Sentence
pub mod Reader
pub mod Explain
pub mod Inner
