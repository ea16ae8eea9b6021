mod CommandLemmas
mod EndLemmas
