pub mod CountLemmas
pub mod WholeLines
pub mod PutLemmas
pub mod EndLemmas
pub mod ProgressLemmas
