mod HitLemmas
