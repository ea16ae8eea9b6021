mod TableLemmas
mod TellingLemmas
