-- The words that lines begin with.
use Rattle.std.specs.Prelude.{ℕ, List, [], ◌∷◌, codes}
use Rattle.sig_script.specs.declared.line_word.LineWord.{LineWord}
use Rattle.sig_script.specs.declared.line_word.LineWord.TheVariants.{Time, Create, Patch, Put, Delete, Status, Operator, Add, Remove, Verify, Publish, Poll, Hand, Deliver, Answer, Check, Stop, Crash}

-- the text of a word
unfoldable pub word_text : LineWord → List ℕ
word_text Time = codes "time"
word_text Create = codes "create"
word_text Patch = codes "patch"
word_text Put = codes "put"
word_text Delete = codes "delete"
word_text Status = codes "status"
word_text Operator = codes "operator"
word_text Add = codes "add"
word_text Remove = codes "remove"
word_text Verify = codes "verify"
word_text Publish = codes "publish"
word_text Poll = codes "poll"
word_text Hand = codes "hand"
word_text Deliver = codes "deliver"
word_text Answer = codes "answer"
word_text Check = codes "check"
word_text Stop = codes "stop"
word_text Crash = codes "crash"

-- every word
unfoldable pub line_words : List LineWord
line_words =
    Time ∷ Create ∷ Patch ∷ Put ∷ Delete ∷ Status ∷ Operator ∷ Add ∷ Remove ∷ Verify ∷ Publish ∷ Poll ∷ Hand ∷ Deliver ∷ Answer ∷ Check ∷ Stop ∷ Crash ∷ []
