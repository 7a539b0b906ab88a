mod TallyLemmas
mod FirstLemmas
mod CountLemmas
