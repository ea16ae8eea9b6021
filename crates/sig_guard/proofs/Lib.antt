mod GuardLemmas
