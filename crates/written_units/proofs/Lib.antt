mod FillingLemmas
mod WrittenLemmas
mod LinkingLemmas
