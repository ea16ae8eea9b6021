-- Books that come to the same.
use Rattle.std.proofs.Common.{◌≡◌, ◌∙◌, ap, sym, List, map}
use Rattle.sig_history.specs.Owed.{Sum}
use Rattle.sig_history.specs.Refused.{Refusals}
use Rattle.sig_history.specs.Standings.{sum_with}
use Rattle.sig_history.specs.Streams.{Publication}
use Rattle.sig_accounts.specs.Owings.{Owing, standing_of, telling_of}
use Rattle.sig_accounts.specs.Reported.{refusals_at}
use Rattle.sig_accounts.proofs.SameLemmas.{same_standings, same_tellings, standings_told}
use Rattle.sig_ledger.specs.Books.{Books, sum_in}

-- books come to the same where their stores, counts and publications are the same, their reported tokens come to the same,
-- and their streams tell the same
pub record AreSame (a b : Books) : Type 0 where
  pub store_id : a.store_id ≡ b.store_id
  pub created : a.created ≡ b.created
  pub published : a.published ≡ b.published
  pub refused : refusals_at a.published a.refused ≡ refusals_at a.published b.refused
  pub tellings : map (telling_of a.published) a.owings ≡ map (telling_of a.published) b.owings

pub same_sum : (a b : Books) → AreSame a b → sum_in a ≡ sum_in b
same_sum a b same =
    let refused : Refusals = refusals_at a.published a.refused in
    let others : Refusals = refusals_at b.published b.refused in
    let both : refused ≡ others = same.refused ∙ ap (λ published. refusals_at published b.refused) same.published in
    ap (λ l. sum_with a.store_id l a.created a.published refused) (same_standings a.store_id a.published a.owings b.owings same.tellings)
    ∙ ap (λ sid. sum_with sid (map (standing_of sid a.published) b.owings) a.created a.published refused) same.store_id
    ∙ ap (λ counts. sum_with b.store_id (map (standing_of b.store_id a.published) b.owings) counts a.published refused) same.created
    ∙ ap (λ published. sum_with b.store_id (map (standing_of b.store_id published) b.owings) b.created published refused) same.published
    ∙ ap (sum_with b.store_id (map (standing_of b.store_id b.published) b.owings) b.created b.published) both

pub sum_same : (a b : Books) → sum_in a ≡ sum_in b → AreSame a b
sum_same a b same =
    let store_id : a.store_id ≡ b.store_id = ap (λ (s : Sum). s.parts.store_id) same in
    let published : a.published ≡ b.published = ap (λ (s : Sum). s.parts.published) same in
    let standings : map (standing_of a.store_id a.published) a.owings ≡ map (standing_of a.store_id a.published) b.owings =
    standings_told (map (standing_of a.store_id a.published) a.owings) (map (standing_of b.store_id b.published) b.owings)
    (ap (λ (s : Sum). s.parts.streams) same) (ap (λ (s : Sum). s.owed) same)
    ∙ ap (λ sid. map (standing_of sid b.published) b.owings) (sym store_id)
    ∙ ap (λ published. map (standing_of a.store_id published) b.owings) (sym published) in
    record {
      store_id = store_id;
      created = ap (λ (s : Sum). s.parts.created) same;
      published = published;
      refused = ap (λ (s : Sum). s.refused) same ∙ ap (λ ps. refusals_at ps b.refused) (sym published);
      tellings = same_tellings a.store_id a.published a.owings b.owings standings;
    }

-- what is compared is what the books hold
pub as_held : (p q : List Publication) (some a others b : List Owing) → p ≡ q → some ≡ a → others ≡ b
    → map (telling_of p) some ≡ map (telling_of p) others → map (telling_of q) a ≡ map (telling_of q) b
as_held p q some a others b published one other same =
    sym (ap (map (telling_of q)) one) ∙ ap (λ r. map (telling_of r) some) (sym published) ∙ same
    ∙ ap (λ r. map (telling_of r) others) published ∙ ap (map (telling_of q)) other
