pub mod AtomLaws
pub mod WaitLaws
pub mod ServeLaws
pub mod WaitRefines
pub mod WaitKept
pub mod Examples
