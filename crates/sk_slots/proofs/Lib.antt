mod SlottedLemmas
mod ValueLemmas
