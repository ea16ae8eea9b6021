-- How the parts of a last line come together, and that they are the line of an ending.
use Rattle.std.proofs.Common.{◌≡◌, ◌==◌, ◌≢◌, sym, subst, refl, arith, List, ℕ, ◌++◌, Option, Result, Ok, Err, false, codes, decimal}
use Rattle.std.specs.Prelude.{OnErr}
use Rattle.std.specs.Io.KnownBytes.{Appends}
use Rattle.std.proofs.KnownBytes.{Appends-trans}
use Rattle.sig_outside.specs.Causes.{AppendsPrefix}
use Rattle.sig_outside.proofs.CauseLemmas.{appends_then_prefix, prefix_longer}
use Rattle.sig_command.specs.Moment.{OutputState}
use Rattle.sig_init.specs.declared.ending.InitEnd.{InitEnd}
use Rattle.sig_logs.specs.declared.difference.Differ.{Differ}
use Rattle.sig_logs.specs.declared.difference.Differ.TheVariants.{Turn}
use Rattle.sig_opening.specs.declared.ending.ServeEnd.{ServeEnd}
use Rattle.sig_opening.specs.declared.ending.ServeEnd.TheVariants.{Disagree}
use Rattle.sig_receive.specs.declared.ending.FetchEnd.{FetchEnd}
use Rattle.sig_service.specs.InitRuns as init_runs
use Rattle.sig_service.specs.LastLine.{PutLast}
use Rattle.sig_service.specs.FetchRuns as fetch_runs
use Rattle.sig_service.specs.ServerRuns.{damaged_line, last_line, status_of}

pub on_err : {T E : Type 0} (r : Result T E) (P : Type 0) → P → OnErr r P
on_err (Ok x) P h = tt
on_err (Err e) P h = h

pub on_err-then : {T E : Type 0} (r : Result T E) (P Q : Type 0) → (P → Q) → OnErr r P → OnErr r Q
on_err-then (Ok x) P Q f h = tt
on_err-then (Err e) P Q f h = f h

-- the first part was cut, the second after the first, or the last after both
pub cut_first : (a b : Option (List ℕ)) (front middle back : List ℕ) → AppendsPrefix a b front → AppendsPrefix a b (front ++ middle ++ back)
cut_first a b front middle back cut = prefix_longer a b (front ++ middle) back (prefix_longer a b front middle cut)

pub cut_second : (a b c : Option (List ℕ)) (front middle back : List ℕ) → Appends a b front → AppendsPrefix b c middle → AppendsPrefix a c (front ++ middle ++ back)
cut_second a b c front middle back put cut = prefix_longer a c (front ++ middle) back (appends_then_prefix a b c front middle put cut)

pub cut_last : (a b c d : Option (List ℕ)) (front middle back : List ℕ) → Appends a b front → Appends b c middle → AppendsPrefix c d back → AppendsPrefix a d (front ++ middle ++ back)
cut_last a b c d front middle back put then cut = appends_then_prefix a c d (front ++ middle) back (Appends-trans a b c front middle put then) cut

-- ---- the line of an ending

put_as : (wanted : ℕ) (line told : List ℕ) (a b : OutputState) (status : ℕ) → line ≡ told → PutLast wanted line a b status → PutLast wanted told a b status
put_as wanted line told a b status is put = subst (λ (l : List ℕ). PutLast wanted l a b status) is put

pub put_init : (e x : InitEnd) (line : List ℕ) (a b : OutputState) (status : ℕ) → e ≡ x → line ≡ init_runs.last_line x
    → PutLast (init_runs.status_of x) line a b status → PutLast (init_runs.status_of e) (init_runs.last_line e) a b status
put_init e x line a b status is same put =
    subst (λ (y : InitEnd). PutLast (init_runs.status_of y) (init_runs.last_line y) a b status) (sym is)
    (put_as (init_runs.status_of x) line (init_runs.last_line x) a b status same put)

pub put_serve : (e x : ServeEnd) (line : List ℕ) (a b : OutputState) (status : ℕ) → e ≡ x → line ≡ last_line x
    → PutLast (status_of x) line a b status → PutLast (status_of e) (last_line e) a b status
put_serve e x line a b status is same put =
    subst (λ (y : ServeEnd). PutLast (status_of y) (last_line y) a b status) (sym is) (put_as (status_of x) line (last_line x) a b status same put)

pub put_fetch : (e x : FetchEnd) (line : List ℕ) (a b : OutputState) (status : ℕ) → e ≡ x → line ≡ fetch_runs.last_line x
    → PutLast (fetch_runs.status_of x) line a b status → PutLast (fetch_runs.status_of e) (fetch_runs.last_line e) a b status
put_fetch e x line a b status is same put =
    subst (λ (y : FetchEnd). PutLast (fetch_runs.status_of y) (fetch_runs.last_line y) a b status) (sym is) (put_as (fetch_runs.status_of x) line (fetch_runs.last_line x) a b status same put)

pub put_differ : (d x : Differ) (line : List ℕ) (a b : OutputState) (status : ℕ) → d ≡ x → line ≡ last_line (Disagree x)
    → PutLast 8 line a b status → PutLast 8 (last_line (Disagree d)) a b status
put_differ d x line a b status is same put =
    subst (λ (y : Differ). PutLast 8 (last_line (Disagree y)) a b status) (sym is) (put_as 8 line (last_line (Disagree x)) a b status same put)

pub put_damaged : (file at : ℕ) (line : List ℕ) (a b : OutputState) (status : ℕ) → line ≡ damaged_line file at
    → PutLast 6 line a b status → PutLast 6 (damaged_line file at) a b status
put_damaged file at line a b status same put = put_as 6 line (damaged_line file at) a b status same put

pub line_of_a : (file at : ℕ) → file ≡ 0 → codes "signals: damaged a " ++ decimal at ++ codes "\n" ≡ damaged_line file at
line_of_a file at is = rw is refl

pub line_of_b : (file at : ℕ) → file ≢ 0 → codes "signals: damaged b " ++ decimal at ++ codes "\n" ≡ damaged_line file at
line_of_b file at other = let no : (file == 0) ≡ false = grind (arith, other) in rw no refl

pub line_of_turn : (link_text place_text : List ℕ) (link place : ℕ) → link_text ≡ decimal link → place_text ≡ codes " place " ++ decimal place ++ codes "\n"
    → codes "signals: disagree link " ++ link_text ++ place_text ≡ last_line (Disagree (Turn link place))
line_of_turn link_text place_text link place a b = rw (a, b) refl

-- a difference is a turn of a link at a place
pub at_turn : {P : Type 0} (d : Differ) → ((link place : ℕ) → d ≡ Turn link place → P) → P
at_turn (Turn link place) holds = holds link place refl
