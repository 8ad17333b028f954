-- What an answer of the parser says of the words.
use Rattle.std.proofs.Common.{◌≡◌, [], subst, inl, inr}
use Rattle.clap.specs.Words.{HasKind, IsAmong, Kinds, kind_of}
use Rattle.clap.specs.declared.error.Error.{Error}
use Rattle.clap.specs.declared.error.kind.ErrorKind.TheVariants.{OutOfMemory}

-- an error of another kind than want of memory isn't one of no kinds
pub has_a_kind : (kinds : Kinds) (e : Error) → HasKind kinds e → (kind_of e ≡ OutOfMemory → ⊥) → kinds ≡ [] → ⊥
has_a_kind kinds e (inl memory) not h = not memory
has_a_kind kinds e (inr among) not h = subst (λ ks. IsAmong (kind_of e) ks) h among
