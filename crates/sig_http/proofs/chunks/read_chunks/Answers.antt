use Rattle.std.proofs.Common.{◌≡◌, ℕ, ◌<◌, ◌+◌, List, [], ◌∷◌, ◌++◌, length, get_or, drop, refl, ap, sym, ◌∙◌, arith}
use Rattle.std.proofs.lemmas.List.{at_drop_more, length_push}
use Rattle.sig_http.specs.Chunks.{Chunked, Holds, Fails, framed_byte, chunks_from}
use Rattle.sig_http.specs.declared.chunks.Standing.{Standing}
use Rattle.sig_http.specs.declared.chunks.Step.{Step}
use Rattle.sig_http.specs.declared.chunks.Step.TheVariants.{On, Keeps, Ended, Broken}
use Rattle.sig_http.proofs.chunks.read_chunks.Goals.{in-On, in-Keeps+in_ok-push-in-Keeps}
use Rattle.sig_http.proofs.chunks.read_chunks.Goals as goal

-- what the bytes after one say, by what that one said
abbrev after_byte : ℕ → Step → ℕ → List ℕ → List ℕ → Chunked
after_byte limit (On next) b content bytes = chunks_from limit next content bytes
after_byte limit (Keeps next) b content bytes = chunks_from limit next (content ++ b ∷ []) bytes
after_byte limit Ended b content bytes = Holds content bytes
after_byte limit (Broken fault) b content bytes = Fails fault

by_chunk : (limit : ℕ) (chunk : Step) (b : ℕ) (content bytes : List ℕ)
    → (elim chunk [ On next ↦ chunks_from limit next content bytes | Keeps next ↦ chunks_from limit next (content ++ b ∷ []) bytes | Ended ↦ Holds content bytes | Broken fault ↦ Fails fault ])
    ≡ after_byte limit chunk b content bytes
by_chunk limit (On next) b content bytes = refl
by_chunk limit (Keeps next) b content bytes = refl
by_chunk limit Ended b content bytes = refl
by_chunk limit (Broken fault) b content bytes = refl

one_byte : (limit place held : ℕ) (standing : Standing) (content bytes : List ℕ) (chunk : Step) → place < length bytes → held ≡ length content
    → chunk ≡ framed_byte limit held standing (get_or bytes place 0)
    → chunks_from limit standing content (drop place bytes) ≡ after_byte limit chunk (get_or bytes place 0) content (drop (place + 1) bytes)
one_byte limit place held standing content bytes chunk there is said =
    at_drop_more (chunks_from limit standing content) bytes place 0 there
    ∙ by_chunk limit (framed_byte limit (length content) standing (get_or bytes place 0)) (get_or bytes place 0) content (drop (place + 1) bytes)
    ∙ ap (λ (n : ℕ). after_byte limit (framed_byte limit n standing (get_or bytes place 0)) (get_or bytes place 0) content (drop (place + 1) bytes)) (sym is)
    ∙ ap (λ (k : Step). after_byte limit k (get_or bytes place 0) content (drop (place + 1) bytes)) (sym said)

pub returns-in-Ended : goal.returns-in-Ended
returns-in-Ended c = record {
  told = (omega arith, c.loop-place.invariant.told ∙ one_byte c.args.limit c.loop-place.place c.len.result c.loop-place.standing c.loop-place.content.items c.args.bytes.now Ended c.loop-place-test.true (omega arith) c.in-Ended.ensures.step);
  light = tt;
}

pub returns-in-Broken : goal.returns-in-Broken
returns-in-Broken c = record {
  told = c.loop-place.invariant.told ∙ one_byte c.args.limit c.loop-place.place c.len.result c.loop-place.standing c.loop-place.content.items c.args.bytes.now (Broken c.in-Broken.fault) c.loop-place-test.true (omega arith) c.in-Broken.ensures.step;
  light = c.in-Broken.ensures.lighter;
}

pub loop-place-preserved : goal.loop-place-preserved
loop-place-preserved c =
    let held : c.len.result ≡ length c.loop-place.content.items = omega arith in
    let content = c.loop-place.content.items in
    let step = one_byte c.args.limit c.loop-place.place c.len.result c.loop-place.standing content c.args.bytes.now in
    elim c.match-framed_byte.branch [
      | in-On w ↦ rw (w.standing-is, w.content-is)
          (record {
            told = c.loop-place.invariant.told ∙ step (On w.in-On.next) c.loop-place-test.true held w.in-On.ensures.step;
            light = omega (arith, rw held at w.in-On.ensures.lighter, c.loop-place.invariant.light);
          })
      | in-Keeps+in_ok-push-in-Keeps w ↦ rw (w.standing-is, w.content-is, w.in_ok-push-in-Keeps.ensures.items)
          (record {
            told = c.loop-place.invariant.told ∙ step (Keeps w.in-Keeps.next) c.loop-place-test.true held w.in-Keeps.ensures.step;
            light = rw length_push (omega (arith, rw held at w.in-Keeps.ensures.lighter, c.loop-place.invariant.light));
          })
    ]
