-- What is taken of a source, call after call.
use Rattle.std.proofs.Common.{◌≡◌, ℕ, ◌≤◌, List, [], ◌++◌, Option, Result, Err, sym, ◌∙◌, ap, subst, append_assoc, append-nil, arith}
use Rattle.std.specs.Prelude.{IsErrOf}
use Rattle.std.proofs.KnownBytes.{Consumes-nil, Consumes-trans}
use Rattle.sig_outside.specs.Causes.{Raised}
use Rattle.sig_http.specs.Faults.{OnFault, OnJudged, Tallies}
use Rattle.sig_http.specs.Pieces.{Draws, Halts}
use Rattle.sig_http.specs.declared.fault.HttpFault.{HttpFault}
use Rattle.sig_http.specs.declared.fault.HttpFault.TheVariants.{Head, Host, HeadLong, Length, BodyLong, Coding, Expect, Cut, Link, Memory}

abbrev pub draws_none : (a : List ℕ) (l : Option (List ℕ)) → Draws a a l l
draws_none a l = record { more = []; gave = Consumes-nil l; stands = sym (append-nil a) }

abbrev pub draws_then : (a b c : List ℕ) (l m n : Option (List ℕ)) → Draws a b l m → Draws b c m n → Draws a c l n
draws_then a b c l m n p q = record {
  more = p.more ++ q.more;
  gave = Consumes-trans l m n p.more q.more p.gave q.gave;
  stands = q.stands ∙ ap (λ x. x ++ q.more) p.stands ∙ append_assoc a p.more q.more;
}

-- where no piece was taken, no bytes were judged
pub halts_fault : (fault : HttpFault) (before now : ℕ) (cut decided : Type 0) → Halts fault before now → OnFault fault cut decided
halts_fault Head before now cut decided h = absurd h
halts_fault Host before now cut decided h = absurd h
halts_fault HeadLong before now cut decided h = absurd h
halts_fault Length before now cut decided h = absurd h
halts_fault BodyLong before now cut decided h = absurd h
halts_fault Coding before now cut decided h = absurd h
halts_fault Expect before now cut decided h = absurd h
halts_fault Cut before now cut decided h = absurd h
halts_fault Link before now cut decided h = tt
halts_fault Memory before now cut decided h = tt

-- the count after it
pub halts_tally : (fault : HttpFault) (first before now : ℕ) → before ≡ first → Halts fault before now → Tallies fault first now
halts_tally Head first before now e h = absurd h
halts_tally Host first before now e h = absurd h
halts_tally HeadLong first before now e h = absurd h
halts_tally Length first before now e h = absurd h
halts_tally BodyLong first before now e h = absurd h
halts_tally Coding first before now e h = absurd h
halts_tally Expect first before now e h = absurd h
halts_tally Cut first before now e h = absurd h
halts_tally Link first before now e h = subst (λ (b : ℕ). Raised b now) e h
halts_tally Memory first before now e h = h ∙ e

-- what is said of a refusal follows where its two parts do
pub on_fault : (fault : HttpFault) (cut decided cut' decided' : Type 0) → (cut → cut') → (decided → decided') → OnFault fault cut decided → OnFault fault cut' decided'
on_fault Head cut decided cut' decided' p q h = q h
on_fault Host cut decided cut' decided' p q h = q h
on_fault HeadLong cut decided cut' decided' p q h = q h
on_fault Length cut decided cut' decided' p q h = q h
on_fault BodyLong cut decided cut' decided' p q h = q h
on_fault Coding cut decided cut' decided' p q h = q h
on_fault Expect cut decided cut' decided' p q h = q h
on_fault Cut cut decided cut' decided' p q h = p h
on_fault Link cut decided cut' decided' p q h = tt
on_fault Memory cut decided cut' decided' p q h = tt

-- what bytes that are held whole decide
pub judged_fault : (fault : HttpFault) (decided cut decided' : Type 0) → (decided → decided') → OnJudged fault decided → OnFault fault cut decided'
judged_fault Head decided cut decided' q h = q h
judged_fault Host decided cut decided' q h = q h
judged_fault HeadLong decided cut decided' q h = q h
judged_fault Length decided cut decided' q h = q h
judged_fault BodyLong decided cut decided' q h = q h
judged_fault Coding decided cut decided' q h = q h
judged_fault Expect decided cut decided' q h = q h
judged_fault Cut decided cut decided' q h = absurd h
judged_fault Link decided cut decided' q h = absurd h
judged_fault Memory decided cut decided' q h = tt

-- and leave the count
pub judged_tally : (fault : HttpFault) (decided : Type 0) (before now : ℕ) → now ≡ before → OnJudged fault decided → Tallies fault before now
judged_tally Head decided before now e h = e
judged_tally Host decided before now e h = e
judged_tally HeadLong decided before now e h = e
judged_tally Length decided before now e h = e
judged_tally BodyLong decided before now e h = e
judged_tally Coding decided before now e h = e
judged_tally Expect decided before now e h = e
judged_tally Cut decided before now e h = absurd h
judged_tally Link decided before now e h = absurd h
judged_tally Memory decided before now e h = e

-- the same of bytes by another name
pub draws_from : (a b c : List ℕ) (l m : Option (List ℕ)) → a ≡ b → Draws a c l m → Draws b c l m
draws_from a b c l m e p = record { more = p.more; gave = p.gave; stands = p.stands ∙ ap (λ x. x ++ p.more) e }

-- a fault that is passed on is a failed link where the count was raised
pub link_raises : {T : Type 0} (result : Result T HttpFault) (fault : HttpFault) (first before now : ℕ) → result ≡ Err fault → before ≡ first → Tallies fault before now → IsErrOf result Link → Raised first now
link_raises result Head first before now is same h e = absurd cc
link_raises result Host first before now is same h e = absurd cc
link_raises result HeadLong first before now is same h e = absurd cc
link_raises result Length first before now is same h e = absurd cc
link_raises result BodyLong first before now is same h e = absurd cc
link_raises result Coding first before now is same h e = absurd cc
link_raises result Expect first before now is same h e = absurd cc
link_raises result Cut first before now is same h e = absurd cc
link_raises result Link first before now is same h e = subst (λ (b : ℕ). Raised b now) same h
link_raises result Memory first before now is same h e = absurd cc

-- another leaves the count
pub other_leaves : {T : Type 0} (result : Result T HttpFault) (fault : HttpFault) (first before now : ℕ) → result ≡ Err fault → before ≡ first → Tallies fault before now → (IsErrOf result Link → ⊥) → now ≡ first
other_leaves result Head first before now is same h other = h ∙ same
other_leaves result Host first before now is same h other = h ∙ same
other_leaves result HeadLong first before now is same h other = h ∙ same
other_leaves result Length first before now is same h other = h ∙ same
other_leaves result BodyLong first before now is same h other = h ∙ same
other_leaves result Coding first before now is same h other = h ∙ same
other_leaves result Expect first before now is same h other = h ∙ same
other_leaves result Cut first before now is same h other = h ∙ same
other_leaves result Link first before now is same h other = absurd (other is)
other_leaves result Memory first before now is same h other = h ∙ same

-- none lowers it
pub none_lowers : (fault : HttpFault) (first before now : ℕ) → before ≡ first → Tallies fault before now → first ≤ now
none_lowers Head first before now same h = omega arith
none_lowers Host first before now same h = omega arith
none_lowers HeadLong first before now same h = omega arith
none_lowers Length first before now same h = omega arith
none_lowers BodyLong first before now same h = omega arith
none_lowers Coding first before now same h = omega arith
none_lowers Expect first before now same h = omega arith
none_lowers Cut first before now same h = omega arith
none_lowers Link first before now same h = omega (arith, h.0)
none_lowers Memory first before now same h = omega arith
