-- What is asked so that the streams become those that are declared.
use Rattle.std.specs.Prelude.{ℕ, List, [], ◌∷◌, ◌++◌, ◌&&◌, Bool, true, false, not, Option, Some, None, option_map, unwrap_or, find, filter_map, bytes_eq, if◌then◌else◌}
use Rattle.std.specs.Option.{option_eq}
use Rattle.std.specs.Cmp.Lexicographic.{pointwise}
use Rattle.std.specs.List.{cons_option, list_any}
use Rattle.sig_terms.specs.declared.want.Delivery.{Delivery}
use Rattle.sig_terms.specs.declared.want.Delivery.TheVariants.{Poll, Push}
use Rattle.sig_terms.specs.declared.want.Want.{Want}
use Rattle.sig_declared.specs.declared.declared.Declared.{Declared}
use Rattle.sig_manager.specs.declared.listed.Listed.{Listed}
use Rattle.sig_manager.specs.declared.step.Step.{Step}
use Rattle.sig_manager.specs.declared.step.Step.TheVariants as step

-- ---- which streams are kept

-- both are given, and are one text
abbrev pub is_one_text : Option (List ℕ) → Option (List ℕ) → Bool
is_one_text None other = false
is_one_text (Some text) None = false
is_one_text (Some text) (Some other) = bytes_eq text other

-- a stream has the description of a declared one
abbrev pub is_described : Declared → Listed → Bool
is_described d l = is_one_text l.description d.want.description

-- the stream that a declared one keeps: the first with its description
abbrev pub kept_by : List Listed → Declared → Option Listed
kept_by listed d = find (is_described d) listed

-- a declared stream keeps this one, which stands behind these
abbrev pub keeps : List Listed → Listed → Declared → Bool
keeps before l d = is_described d l && not (list_any (is_described d) before)

abbrev pub is_kept : List Declared → List Listed → Listed → Bool
is_kept declared before l = list_any (keeps before l) declared

-- ---- whether a want is as declared

-- the event types are one list, or none are given
abbrev pub same_requested : Option (List (List ℕ)) → Option (List (List ℕ)) → Bool
same_requested = option_eq (pointwise bytes_eq)

-- by poll
abbrev pub is_poll : Delivery → Bool
is_poll Poll = true
is_poll (Push endpoint url authorization) = false

-- by push, with this URL and this authorization as they stand
abbrev pub is_push_to : List ℕ → Option (List ℕ) → Delivery → Bool
is_push_to url authorization Poll = false
is_push_to url authorization (Push endpoint address shown) = bytes_eq url address && option_eq bytes_eq authorization shown

-- both by poll, or both by push to one URL with one authorization
abbrev pub same_delivery : Delivery → Delivery → Bool
same_delivery Poll other = is_poll other
same_delivery (Push endpoint url authorization) other = is_push_to url authorization other

-- how tokens reach the receiver: by poll where none is given
abbrev pub given : Option Delivery → Delivery
given delivery = unwrap_or delivery Poll

abbrev pub same_want : Want → Want → Bool
same_want w declared =
    same_requested w.requested declared.requested && same_delivery (given w.delivery) (given declared.delivery)

-- a want that can't be read is never as declared
abbrev pub is_as_declared : Option Want → Want → Bool
is_as_declared None declared = false
is_as_declared (Some w) declared = same_want w declared

-- ---- the steps

-- the status of a stream that is kept is asked for
abbrev pub status_by : Declared → Option Listed → Option Step
status_by d None = None
status_by d (Some l) = Some (step.Status l.id d.status)

-- a stream that is kept is replaced where its want differs
abbrev pub replace_by : Declared → Option Listed → Option Step
replace_by d None = None
replace_by d (Some l) = if is_as_declared l.want d.want then None else Some (step.Replace l.id d.want)

-- a declared stream that keeps none is created
abbrev pub create_by : Declared → Option Listed → Option Step
create_by d None = Some (step.Create d.want d.status)
create_by d (Some l) = None

abbrev pub status_for : List Listed → Declared → Option Step
status_for listed d = status_by d (kept_by listed d)

abbrev pub replace_for : List Listed → Declared → Option Step
replace_for listed d = replace_by d (kept_by listed d)

abbrev pub create_for : List Listed → Declared → Option Step
create_for listed d = create_by d (kept_by listed d)

abbrev pub statuses_of : List Declared → List Listed → List Step
statuses_of declared listed = filter_map (status_for listed) declared

abbrev pub replaces_of : List Declared → List Listed → List Step
replaces_of declared listed = filter_map (replace_for listed) declared

abbrev pub creates_of : List Declared → List Listed → List Step
creates_of declared listed = filter_map (create_for listed) declared

-- a stream that stands behind these is deleted where none keeps it
abbrev pub delete_for : List Declared → List Listed → Listed → Option Step
delete_for declared before l = if is_kept declared before l then None else Some (step.Delete l.id)

-- what is deleted of these streams, which stand behind those
abbrev pub deletes_behind : List Declared → List Listed → List Listed → List Step
deletes_behind declared before [] = []
deletes_behind declared before (l ∷ ls) =
    cons_option (delete_for declared before l) (deletes_behind declared (before ++ l ∷ []) ls)

abbrev pub deletes_of : List Declared → List Listed → List Step
deletes_of declared listed = deletes_behind declared [] listed

-- all of them: statuses, then what is deleted, replaced and created
abbrev pub steps_of : List Declared → List Listed → List Step
steps_of declared listed =
    statuses_of declared listed ++ deletes_of declared listed ++ replaces_of declared listed ++ creates_of declared listed
