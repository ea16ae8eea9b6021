use Rattle.std.proofs.Common.{◌≡◌, ◌∙◌, ap, sym, ℕ, ◌+◌, ◌≤◌, List, ◌++◌, Bool, false, ◌||◌, Global, Vec, append-nil, bytes_eq, drop, get_or, length, min, refl, subst, take, arith}
use Rattle.std.specs.Prelude.{flat_map}
use Rattle.std.proofs.lemmas.List.{drop_all, length-take, take_all}
use Rattle.indexmap.specs.IndexSet.{contains}
use Rattle.sig_json.specs.declared.limits.TheConstants.{TOKENS_PER_PAGE}
use Rattle.sig_terms.specs.declared.token.Token.{Token}
use Rattle.sig_calls.specs.Handing.{pushed_by}
use Rattle.sig_ledger.specs.Books.{sum_in}
use Rattle.sig_token_calls.proofs.HandingLemmas.{all_first, from_not_false, from_not_true, name_added, name_passed, page_of_names, page_stays}
use Rattle.sig_token_calls.proofs.handing.handed.Goals as goal
use Rattle.sig_token_calls.proofs.handing.handed.Goals.{then-branch+in_ok-push_offered, else-branch}

pub returns-then-len-eq-TOKENS_PER_PAGE : goal.returns-then-len-eq-TOKENS_PER_PAGE
returns-then-len-eq-TOKENS_PER_PAGE c =
    let f : List ℕ → List Token = pushed_by (sum_in c.args.ledger.now.books) in
    c.of.ensures
    ∙ sym (page_stays TOKENS_PER_PAGE c.loop-name.tokens.items _ (omega (arith, c.len.ensures, c.if-len-eq-TOKENS_PER_PAGE.true)))
    ∙ sym c.loop-name.invariant.1
    ∙ ap (λ (l : List (List ℕ)). take TOKENS_PER_PAGE (flat_map f l)) (all_first (λ n. false) (λ n. refl) c.args.streams.now)

pub loop-name-preserved : goal.loop-name-preserved
loop-name-preserved c =
    let f : List ℕ → List Token = pushed_by (sum_in c.args.ledger.now.books) in
    let names : List (List ℕ) = c.args.streams.now in
    let name : List ℕ = c.name-item.result in
    let seen : List ℕ → Bool = contains bytes_eq c.loop-name.seen in
    let after : List ℕ → Bool = contains bytes_eq c.is_first.new.seen in
    let so : (m : List ℕ) → after m ≡ (bytes_eq m (get_or names c.loop-name.name-index name) || seen m) =
    λ m. c.in_ok-is_first.ensures.seen m ∙ ap (λ (n : List ℕ). bytes_eq m n || seen m) c.name-item.is in
    elim c.if-branch.branch [
      | then-branch+in_ok-push_offered w ↦
          (let added : w.push_offered.new.tokens.items ≡ take TOKENS_PER_PAGE (c.loop-name.tokens.items ++ f (get_or names c.loop-name.name-index name)) =
          w.in_ok-push_offered.ensures ∙ ap (λ (n : List ℕ). take TOKENS_PER_PAGE (c.loop-name.tokens.items ++ f n)) c.name-item.is in
          let cut : length w.push_offered.new.tokens.items ≡ min TOKENS_PER_PAGE (length (c.loop-name.tokens.items ++ f (get_or names c.loop-name.name-index name))) =
          ap length added ∙ length-take TOKENS_PER_PAGE (c.loop-name.tokens.items ++ f (get_or names c.loop-name.name-index name)) in
          let short : length w.push_offered.new.tokens.items ≤ TOKENS_PER_PAGE = omega (arith, cut) in (
            subst (λ (v : Vec Token Global). length v.items ≤ TOKENS_PER_PAGE) (sym w.tokens-is) short,
            c.loop-name.invariant.1
                ∙ name_added TOKENS_PER_PAGE f c.loop-name.tokens.items w.push_offered.new.tokens.items seen after names c.loop-name.name-index name (omega arith)
                (ap seen (sym c.name-item.is) ∙ from_not_true (seen name) c.in_ok-is_first.field-0 c.in_ok-is_first.ensures.first w.if-branch.true) so added
                ∙ ap (λ (v : Vec Token Global). page_of_names TOKENS_PER_PAGE f v.items after (drop (c.loop-name.name-index + 1) names)) (sym w.tokens-is),
          ))
      | else-branch w ↦ (
        subst (λ (v : Vec Token Global). length v.items ≤ TOKENS_PER_PAGE) (sym w.tokens-is) c.loop-name.invariant.0,
        c.loop-name.invariant.1
            ∙ name_passed TOKENS_PER_PAGE f c.loop-name.tokens.items seen after names c.loop-name.name-index name (omega arith)
            (ap seen (sym c.name-item.is) ∙ from_not_false (seen name) c.in_ok-is_first.field-0 c.in_ok-is_first.ensures.first w.if-branch.false) so
            ∙ ap (λ (v : Vec Token Global). page_of_names TOKENS_PER_PAGE f v.items after (drop (c.loop-name.name-index + 1) names)) (sym w.tokens-is),
      )
    ]

pub returns : goal.returns
returns c =
    let f : List ℕ → List Token = pushed_by (sum_in c.args.ledger.now.books) in
    c.of-2.ensures
    ∙ sym (ap (take TOKENS_PER_PAGE) (append-nil c.loop-name.tokens.items) ∙ take_all TOKENS_PER_PAGE c.loop-name.tokens.items c.loop-name.invariant.0)
    ∙ sym (c.loop-name.invariant.1
    ∙ ap (page_of_names TOKENS_PER_PAGE f c.loop-name.tokens.items (contains bytes_eq c.loop-name.seen)) (drop_all c.loop-name.name-index c.args.streams.now (omega arith)))
    ∙ ap (λ (l : List (List ℕ)). take TOKENS_PER_PAGE (flat_map f l)) (all_first (λ n. false) (λ n. refl) c.args.streams.now)
