pub mod ByteLemmas
pub mod ModLemmas
pub mod SizeLemmas
pub mod ValueLemmas
