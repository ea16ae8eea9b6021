-- What is written of texts is canonical and shallow.
use Rattle.std.proofs.Common.{◌≡◌, ◌≤◌, ◌<◌, ℕ, suc, List, [], ◌∷◌, map, All, true, Option, Some, None, IfSome, Ordering, Less, Equal, Greater, nat_cmp, IsUtf8, refl, arith, codes}
use Rattle.std.specs.Prelude.{option_map}
use Rattle.std.specs.Cmp.Lexicographic.{slice_cmp}
use Rattle.std.specs.Ordering.{match_ordering}
use Rattle.json.proofs.Printed.Utf8.{are_ascii, IsUtf8-are_ascii}
use Rattle.serde_json.specs.Data.{Data, string, Members, no_members, member, put, depth, items_depth, members_depth}
use Rattle.serde_json.specs.View.{items_of}
use Rattle.sig_json.specs.Canon.{IsCanonical, MembersAreCanonical}
use Rattle.sig_json.proofs.CanonicalPayloads.{put_canonical}
use Rattle.sig_stream.specs.Configurations.{push_data, put_given, texts_data}
use Rattle.sig_stream.specs.Wants.{push_method}
use Rattle.sig_manager_laws.specs.Written.{AreTexts}

pub ascii : (text : List ℕ) → are_ascii text ≡ true → IsUtf8 text
ascii text h = IsUtf8-are_ascii text h

-- ---- given members

pub given_canonical : (k : List ℕ) (o : Option Data) (ms : Members) → IsUtf8 k → IfSome o IsCanonical → MembersAreCanonical ms
    → MembersAreCanonical (put_given k o ms)
given_canonical k None ms name one h = h
given_canonical k (Some d) ms name one h = put_canonical k d ms name one h

pub put_shallow : (n : ℕ) (k : List ℕ) (d : Data) (ms : Members) → depth d < n → members_depth ms < n → members_depth (put k d ms) < n
put_shallow n k d no_members one h = omega arith
put_shallow n k d (member l e ms) one h = at (slice_cmp nat_cmp k l) (put_shallow n k d ms one (omega arith))
  where
    at : (o : Ordering) → members_depth (put k d ms) < n → members_depth (match_ordering o (member k d (member l e ms)) (member l d ms) (member l e (put k d ms))) < n
    at Less rest = omega arith
    at Equal rest = omega arith
    at Greater rest = omega arith

pub given_shallow : (n : ℕ) (k : List ℕ) (o : Option Data) (ms : Members) → IfSome o (λ d. depth d < n) → members_depth ms < n
    → members_depth (put_given k o ms) < n
given_shallow n k None ms one h = h
given_shallow n k (Some d) ms one h = put_shallow n k d ms one h

-- a fact of each value that is given
pub each_given : {X : Type 0} (P : X → Type 0) (Q : Data → Type 0) (f : X → Data) (o : Option X) → ((x : X) → P x → Q (f x)) → IfSome o P
    → IfSome (option_map f o) Q
each_given P Q f None each h = tt
each_given P Q f (Some x) each h = each x h

pub each_shallow : {X : Type 0} (n : ℕ) (f : X → Data) (o : Option X) → ((x : X) → depth (f x) < n) → IfSome (option_map f o) (λ d. depth d < n)
each_shallow n f None each = tt
each_shallow n f (Some x) each = each x

-- ---- texts

rest_utf8 : (text : List ℕ) (texts : List (List ℕ)) → All IsUtf8 (text ∷ texts) → All IsUtf8 texts
rest_utf8 text texts h k d small = h (suc k) d (omega arith)

pub texts_canonical : (texts : List (List ℕ)) → AreTexts texts → IsCanonical (texts_data texts)
texts_canonical [] h = tt
texts_canonical (text ∷ texts) h = (h 0 [] (omega arith), texts_canonical texts (rest_utf8 text texts h))

texts_flat : (texts : List (List ℕ)) → items_depth (items_of (map (λ t. string t) texts)) ≤ 0
texts_flat [] = omega arith
texts_flat (text ∷ texts) = omega (arith, texts_flat texts)

pub texts_shallow : (texts : List (List ℕ)) → depth (texts_data texts) < 2
texts_shallow texts = omega (arith, texts_flat texts)

-- ---- a push

pub push_canonical : (url : List ℕ) (authorization : Option (List ℕ)) → IsUtf8 url → IfSome authorization IsUtf8
    → IsCanonical (push_data url authorization)
push_canonical url authorization one two =
    given_canonical (codes "authorization_header") (option_map (λ t. string t) authorization) _ (ascii _ refl)
    (each_given IsUtf8 IsCanonical (λ t. string t) authorization (λ t h. h) two)
    (ascii _ refl, one, (refl, tt), (ascii _ refl, ascii _ refl, tt, tt))

abbrev fixed : List ℕ → Members
fixed url = member (codes "endpoint_url") (string url) (member (codes "method") (string push_method) no_members)

pub push_shallow : (url : List ℕ) (authorization : Option (List ℕ)) → depth (push_data url authorization) < 2
push_shallow url authorization =
    let below : members_depth (put_given (codes "authorization_header") (option_map (λ t. string t) authorization) (fixed url)) < 1 =
    given_shallow 1 (codes "authorization_header") (option_map (λ t. string t) authorization) (fixed url)
    (each_shallow 1 (λ t. string t) authorization (λ t. omega arith)) (omega arith) in
    omega (arith, below)
