pub mod BothLemmas
