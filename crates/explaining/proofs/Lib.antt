-- The laws that the proofs of explaining rest on.
pub mod PutLaws
pub mod StartLaws
pub mod TextLaws
pub mod ExplainLaws
