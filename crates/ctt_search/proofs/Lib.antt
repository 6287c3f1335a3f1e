mod ScoreLemmas
mod BetweenLemmas
mod WishLemmas
mod PinLemmas
