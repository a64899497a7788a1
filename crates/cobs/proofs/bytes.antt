-- Lemmas on bytes. `ListLemmas`: bytes and lists. `XoredLemmas`: bytes that are XORed with the sentinel.
pub mod ListLemmas
pub mod XoredLemmas
