-- The laws that the proofs of this crate rest on, and those that the crates above share.
pub mod SheetLaws
pub mod WriteLaws
pub mod Sources
pub mod ByteLaws
pub mod PartLaws
pub mod TableLaws
pub mod FirstPlaces
pub mod RuleLaws
pub mod RowLaws
pub mod AnswerLaws
