mod Examples
pub mod Lookup
pub mod Stays
pub mod Turning
pub mod Putting
pub mod Marking
pub mod Closing
pub mod Walking
pub mod Trail
pub mod Opening
mod MachineExamples
pub mod MachineLists
pub mod Deciding
pub mod PassChange
pub mod Passing
pub mod Editing
pub mod MarkRule
pub mod PutRule
pub mod OpeningRule
pub mod RunRule
pub mod Steady
pub mod Refusing
pub mod Marked
pub mod MarkRows
pub mod RunRows
