mod ValueLemmas
