pub mod RefusalLemmas
pub mod SessionLemmas
pub mod UnservedLemmas
