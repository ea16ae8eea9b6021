use Rattle.std.proofs.Common.{◌≡◌, ◌∙◌, ap, sym, ℕ, List, Some, not, ◌&&◌, arith}
use Rattle.std.specs.List.{list_any, slice_get}
use Rattle.std.specs.Map.{keys_of}
use Rattle.std.specs.Map.Iter.{deref_pair}
use Rattle.std.specs.Option.{option_map}
use Rattle.std.specs.Prelude.{nat_eq}
use Rattle.std.proofs.lemmas.List.{length-map, take_all}
use Rattle.std.proofs.lemmas.Option.{slice_get-map}
use Rattle.sig_subject.specs.Matching.{is_identical}
use Rattle.sig_subject.specs.declared.subject.Subject.{Subject}
use Rattle.sig_accounts.specs.Listening.{is_among}
use Rattle.sig_accounts.proofs.ListsLemmas.{any_more, either_way}
use Rattle.sig_accounts.proofs.ListeningLemmas.{left_more}
use Rattle.sig_accounts.proofs.subjects.leave_each.Goals as goal

pub loop-index-preserved : goal.loop-index-preserved
loop-index-preserved c =
    let es : List (Subject × ℕ) = c.args.places.now.entries in
    let k : Subject = c.unwrap.result.0.now in
    let entry : slice_get es c.loop-index.index ≡ Some (k, c.unwrap.result.1.now) = sym c.get_index.ensures.entry ∙ ap (option_map deref_pair) c.unwrap.ensures in
    let at : slice_get (keys_of es) c.loop-index.index ≡ Some k =
    slice_get-map (λ (e : Subject × ℕ). e.0) es c.loop-index.index ∙ ap (option_map (λ (e : Subject × ℕ). e.0)) entry in record {
      within = omega (arith, c.loop-index-test.true, c.len-index-end.ensures.len);
      gone = λ s n.
          c.remove_seat.ensures s n
          ∙ ap (λ b. b && not (is_identical k s && nat_eq n c.args.seat)) (c.loop-index.invariant.gone s n)
          ∙ left_more (is_among s n c.args.lists.now.entries) _ (is_identical k s) (nat_eq n c.args.seat)
          ∙ ap (λ b. is_among s n c.args.lists.now.entries && not (b && nat_eq n c.args.seat))
          (sym (any_more s (keys_of es) c.loop-index.index k at));
    }

pub returns : goal.returns
returns c = λ s n.
    let es : List (Subject × ℕ) = c.args.places.now.entries in
    c.loop-index.invariant.gone s n
    ∙ ap (λ (ks : List Subject). is_among s n c.args.lists.now.entries && not (list_any (is_identical s) ks && nat_eq n c.args.seat))
    (take_all c.loop-index.index (keys_of es) (omega (arith, c.loop-index-test.false, c.len-index-end.ensures.len, length-map es (λ (e : Subject × ℕ). e.0))))
