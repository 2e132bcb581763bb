pub mod Again
pub mod Bare
pub mod CutLaws
pub mod CutLemmas
pub mod Depths
pub mod FrontLemmas
pub mod GapGrammar
pub mod FaultFound
pub mod FaultKind
pub mod GapFound
pub mod GapLemmas
pub mod GrammarParts
pub mod KindFound
pub mod KindGrammar
pub mod KindLemmas
pub mod LexemeLemmas
pub mod Longest
pub mod Many
pub mod MarkLemmas
pub mod NumberLemmas
pub mod PlainLemmas
mod GrammarRows
mod Rows
pub mod ScanLemmas
pub mod ScriptLaws
pub mod Questions
pub mod SkipLemmas
pub mod Spelled
pub mod StrayGrammar
pub mod StrayLemmas
pub mod StringLemmas
pub mod TreeLaws
mod TreeRows
pub mod WithinLemmas
