-- The pages for a reader are Theorems, Answers, SheetTheorem and Tight; the others are the laws that they rest on, and LoopLaws what the code rests on.
pub mod AllSheets
pub mod CountedLaws
pub mod ValueLaws
pub mod KindLaws
pub mod BoundLaws
pub mod ShareLaws
pub mod GrowthLaws
pub mod LoopLaws
pub mod Theorems
pub mod OneAnswer
pub mod Answers
pub mod SheetTheorem
pub mod FittedLaws
pub mod Tight
pub mod LineLaws
