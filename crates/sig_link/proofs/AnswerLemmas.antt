-- What a request that was read comes to: its course, its response, and what follows.
use Rattle.std.proofs.Common.{◌≡◌, ◌⊎◌, ℕ, List, [], ◌++◌, Option, Some, None, Ok, Err, Bool, true, false, inl, inr, refl, sym, ap, subst, ◌∙◌}
use Rattle.std.specs.Prelude.{if◌then◌else◌, ⊤}
use Rattle.sig_http.specs.declared.message.Request.{Request}
use Rattle.sig_http.specs.declared.message.Response.{Response}
use Rattle.sig_links.specs.Views.{SideView}
use Rattle.sig_serving.specs.Line.{Line, Says, Sends}
use Rattle.sig_serving.specs.Sending.{EndsWriting}
use Rattle.sig_serving.specs.Texts.{memory_text}
use Rattle.sig_serving.specs.declared.link_end.LinkEnd.{LinkEnd}
use Rattle.sig_serving.specs.declared.link_end.LinkEnd.TheVariants.{End, Spent, Closed, Http, Sent, Memory}
use Rattle.sig_link.specs.Answering.{IsAnswered, IsResponse, starved as out, text_of}
use Rattle.sig_link.specs.Course.{Comes, Continues, own_turn}
use Rattle.sig_link.specs.Exchange.{closes_after}
use Rattle.sig_link.specs.Meaning.{Grows, Meaning}
use Rattle.sig_link.specs.Moment.{Desk, desk_of}
use Rattle.sig_link.specs.Serving.{AnswersBy, AnswersRequest, Handles, IsTold, Takes, end_after}
use Rattle.sig_link.specs.declared.course.Course.{Course}

module _ {Rules Call Turn Told : Type 0} (m : Meaning Rules Call Turn Told) (rules : Rules) (link before : ℕ) (request : Request) (course : Course Turn) where
  -- what the taker tells stays while its answer is told
  told_same : (k l l' : Told) → l' ≡ l → m.Grew k l (own_turn course) → m.Grew k l' (own_turn course)
  told_same k l l' same grew = subst (λ (t : Told). m.Grew k t (own_turn course)) (sym same) grew

  -- the course of a request was taken
  takes_course : (a b : SideView) (k l : Told) (x y z : List Turn)
      → Comes m rules link request course a b → m.Grew k l (own_turn course) → y ≡ x → z ≡ y ++ own_turn course
      → (response : Response) → Takes m rules link (record { request = request; course = course; response = response; more = [] }) (desk_of a k x) (desk_of b l z)
  takes_course a b k l x y z comes grew first kept response = record {
    comes = comes;
    adds = record { log = kept ∙ ap (λ (ts : List Turn). ts ++ own_turn course) first; taker = grew };
  }

  -- and what follows was done
  handles_course : Grows m.Grew → (starved : Bool) (a b c : SideView) (k l n : Told) (x y z : List Turn)
      → Comes m rules link request course a b → m.Grew k l (own_turn course) → y ≡ x
      → (f : Continues m rules course starved y z l n b c) (response : Response) → IsResponse m rules course response
      → Handles m rules link (record { request = request; course = course; response = response; more = f.more }) starved (desk_of a k x) (desk_of c n z)
  handles_course grows starved a b c k l n x y z comes grew first f response responds = record {
    makes = record { between = b; comes = comes; responds = responds; follows = f.follows };
    adds = record {
      log = f.log ∙ ap (λ (ts : List Turn). ts ++ (own_turn course ++ f.more)) first;
      taker = grows.on k l n (own_turn course) f.more grew f.taker;
    };
  }

  -- ---- how the link ends

  closed_or_not : (line line' : Line) (desk desk' : Desk Turn Told) (closes : Bool) → request.close ≡ closes
      → IsTold m rules link before request false line line' desk desk' → AnswersBy m rules link before request (if closes then Some Closed else None) line line' desk desk'
  closed_or_not line line' desk desk' true is told = (told, is)
  closed_or_not line line' desk desk' false is told = (told, is)

  told_by : (starved : Bool) (line line' : Line) (desk desk' : Desk Turn Told)
      → IsTold m rules link before request starved line line' desk desk' → AnswersBy m rules link before request (end_after request starved) line line' desk desk'
  told_by true line line' desk desk' told = inr told
  told_by false line line' desk desk' told = closed_or_not line line' desk desk' request.close refl told

  -- the response was written whole, and what follows was done
  pub answered_whole : Grows m.Grew → (close : Bool) (u : ⊤) (starved : Bool) (result : Option LinkEnd) (line line' : Line)
      (a b c : SideView) (k l l' n : Told) (x y z : List Turn)
      → close ≡ closes_after before request → result ≡ end_after request starved
      → Comes m rules link request course a b → m.Grew k l (own_turn course) → y ≡ x
      → IsAnswered m rules close course (Ok u) line line' → l' ≡ l → Continues m rules course starved y z l' n b c
      → AnswersRequest m rules link before request result line line' (desk_of a k x) (desk_of c n z)
  answered_whole grows close u starved result line line' a b c k l l' n x y z closes ends comes grew first answered same f = elim answered.comes [
    | inl h ↦
        let says : Says (text_of close h.0) line line' = h.2.comes in
        let told : IsTold m rules link before request starved line line' (desk_of a k x) (desk_of c n z) = (
          record { request = request; course = course; response = h.0; more = f.more },
          refl,
          handles_course grows starved a b c k l' n x y z comes (told_same k l l' same grew) first f h.0 h.1,
          subst (λ (b : Bool). Says (text_of b h.0) line line') closes says,
        ) in
        record {
          comes = subst (λ (r : Option LinkEnd). AnswersBy m rules link before request r line line' (desk_of a k x) (desk_of c n z)) (sym ends)
              (told_by starved line line' (desk_of a k x) (desk_of c n z) told);
        }
    | inr h ↦ absurd (cc h.0)
  ]

  answered_cut : (end : LinkEnd) (line line' : Line) (desk desk' : Desk Turn Told) (response : Response)
      → Takes m rules link (record { request = request; course = course; response = response; more = [] }) desk desk'
      → IsResponse m rules course response → EndsWriting (text_of (closes_after before request) response) end line line'
      → AnswersBy m rules link before request (Some end) line line' desk desk'
  answered_cut End line line' desk desk' response takes responds h = absurd h
  answered_cut Spent line line' desk desk' response takes responds h = absurd h
  answered_cut Closed line line' desk desk' response takes responds h = absurd h
  answered_cut (Http fault) line line' desk desk' response takes responds h = absurd h
  answered_cut (Sent fault) line line' desk desk' response takes responds h =
      (h.0, (record { request = request; course = course; response = response; more = [] }, refl, takes, responds, h.1))
  answered_cut Memory line line' desk desk' response takes responds h =
      inl (inr (record { request = request; course = course; response = response; more = [] }, refl, takes), h)

  -- memory ran out before there was a response
  answered_without : (end : LinkEnd) (line line' : Line) (desk desk' : Desk Turn Told)
      → Takes m rules link (record { request = request; course = course; response = out; more = [] }) desk desk'
      → end ≡ Memory → Sends memory_text line line' → AnswersBy m rules link before request (Some end) line line' desk desk'
  answered_without end line line' desk desk' takes is sends =
      rw is (inl (inr (record { request = request; course = course; response = out; more = [] }, refl, takes), sends))

  -- or it was not
  pub answered_not : (close : Bool) (end : LinkEnd) (line line' : Line) (a b : SideView) (k l l' : Told) (x y z : List Turn)
      → close ≡ closes_after before request
      → Comes m rules link request course a b → m.Grew k l (own_turn course) → y ≡ x → z ≡ y ++ own_turn course
      → IsAnswered m rules close course (Err end) line line' → l' ≡ l
      → AnswersRequest m rules link before request (Some end) line line' (desk_of a k x) (desk_of b l' z)
  answered_not close end line line' a b k l l' x y z closes comes grew first kept answered same =
      let turned : m.Grew k l' (own_turn course) = told_same k l l' same grew in
      elim answered.comes [
        | inl h ↦
            let ends : EndsWriting (text_of close h.0) end line line' = h.2.comes in
            record {
              comes = answered_cut end line line' (desk_of a k x) (desk_of b l' z) h.0 (takes_course a b k l' x y z comes turned first kept h.0) h.1
                  (subst (λ (b : Bool). EndsWriting (text_of b h.0) end line line') closes ends);
            }
        | inr h ↦ record {
          comes = answered_without end line line' (desk_of a k x) (desk_of b l' z) (takes_course a b k l' x y z comes turned first kept out) (cc h.0) h.1;
        }
      ]

-- memory ran out before its course was taken
pub answered_out : {Rules Call Turn Told : Type 0} (m : Meaning Rules Call Turn Told) (rules : Rules) (link before : ℕ) (request : Request) (end : LinkEnd) (line line' : Line)
    (a b : SideView) (k l : Told) (x y : List Turn) → end ≡ Memory
    → (b ≡ a) ⊎ m.Tries a b → l ≡ k → y ≡ x → Sends memory_text line line'
    → AnswersRequest m rules link before request (Some end) line line' (desk_of a k x) (desk_of b l y)
answered_out m rules link before request end line line' a b k l x y is side told turns sends =
    rw is (record { comes = inl (inl (record { side = side; told = told; turns = turns }), sends) })
