pub mod KeepLemmas
