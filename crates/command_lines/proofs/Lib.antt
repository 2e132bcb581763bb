mod DayLemmas
mod MomentLemmas
mod SessionLemmas
mod SizeRows
mod StoreLemmas
mod TableLemmas
mod TableRows
mod ToolLemmas
