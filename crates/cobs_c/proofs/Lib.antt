mod AnswerLemmas
mod BufferLemmas
mod FinishLemmas
mod HeadLemmas
mod PieceLemmas
mod WritesLemmas
