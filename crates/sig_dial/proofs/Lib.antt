pub mod ExchangeLemmas
pub mod AskLemmas
pub mod StoppingLemmas
