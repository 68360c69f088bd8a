-- What a fast reader finds is the line's command.
use Rattle.std.proofs.Common.{◌≡◌, ◌≤◌, ◌⊎◌, ℕ, Bool, true, false, cond, List, [], ◌∷◌, ◌++◌, Option, Some, None, Ok, IfSome, inl, inr}
use Rattle.std.proofs.Common.{refl, ap, subst, length, ◌∙◌, arith, length-append}
use Rattle.std.specs.Prelude.{codes}
use Rattle.std.specs.Char.{is_ascii_digit}
use Rattle.std.proofs.lemmas.List.{append-nil}
use Rattle.ds_names.specs.Endpoint.{EndpointRecord, IsEndpoint, endpoint_of, endpoint_text}
use Rattle.ds_names.specs.Run.{Begins}
use Rattle.ds_names.specs.declared.key.Key.{Key}
use Rattle.ds_line.proofs.NewlineLemmas.{unbroken_endpoint, unbroken_one}
use Rattle.ds_machine.specs.declared.command.Command.TheVariants.{Retrieve, NameOf}
use Rattle.line_io.specs.Lines.{IsUnbroken, with_newline}
use Rattle.script_commands.specs.declared.command.ScriptCommand.TheVariants.{Store}
use Rattle.script_commands.specs.Command.{IsLineOf, ReadsCommand}
use Rattle.c_values.specs.Request.{endpoint_at}
use Rattle.c_store.specs.Line.{IsCommandIn}
use Rattle.c_store.specs.Fast.{IsEndpointAlone}
use Rattle.c_store.proofs.LineLemmas.{of_ended}

-- the key of a line with its newline
pub of_key : (bytes line : List ℕ) → IsUnbroken line → bytes ≡ with_newline line → length line ≤ 4096 → (found : Option Key)
    → IfSome found (λ key. ReadsCommand bytes (Ok (Store (Retrieve key)))) → IfSome found (λ key. IsCommandIn bytes (Store (Retrieve key)))
of_key bytes line unbroken is short None reads = tt
of_key bytes line unbroken is short (Some key) reads = of_ended bytes line unbroken is short (Ok (Store (Retrieve key))) reads

-- ---- the endpoint of a `nameof`

of_cond : (b : Bool) (x e : EndpointRecord) → Some e ≡ cond b (Some x) None → x ≡ e
of_cond true x e is = cc
of_cond false x e is = absurd (let n : Some e ≡ None = is in cc)

in_range : (g s : ℕ) (e : EndpointRecord) → Some e ≡ endpoint_at g s → endpoint_of g s ≡ e
unfolding endpoint_at
in_range g s e is = of_cond _ (endpoint_of g s) e is

ends_so : (bytes text rest : List ℕ) → bytes ≡ text ++ rest → (rest ≡ []) ⊎ (rest ≡ 10 ∷ []) → (bytes ≡ text) ⊎ (bytes ≡ text ++ 10 ∷ [])
ends_so bytes text rest parts (inl none) = inl (parts ∙ ap (λ (r : List ℕ). text ++ r) none ∙ append-nil text)
ends_so bytes text rest parts (inr one) = inr (parts ∙ ap (λ (r : List ℕ). text ++ r) one)

pub alone : (g s : ℕ) (bytes rest : List ℕ) → Begins is_ascii_digit bytes (endpoint_text (endpoint_of g s)) rest →
    IsEndpoint (endpoint_of g s) → (rest ≡ []) ⊎ (rest ≡ 10 ∷ [])
    → (found : Option EndpointRecord) → found ≡ endpoint_at g s → IfSome found (λ e. IsEndpointAlone e bytes)
alone g s bytes rest begins valid end None is = tt
alone g s bytes rest begins valid end (Some e) is =
    subst (λ (x : EndpointRecord). IsEndpointAlone x bytes) (in_range g s e is)
    (record { valid = valid; text = ends_so bytes (endpoint_text (endpoint_of g s)) rest begins.parts end })

unbroken_line : (e : EndpointRecord) → IsEndpoint e → IsUnbroken (codes "nameof " ++ endpoint_text e)
unbroken_line e valid =
    let t6 = unbroken_one 32 (endpoint_text e) (λ same. omega (arith, same)) (unbroken_endpoint e valid) in
    let t5 = unbroken_one 102 (32 ∷ endpoint_text e) (λ same. omega (arith, same)) t6 in
    let t4 = unbroken_one 111 (102 ∷ 32 ∷ endpoint_text e) (λ same. omega (arith, same)) t5 in
    let t3 = unbroken_one 101 (111 ∷ 102 ∷ 32 ∷ endpoint_text e) (λ same. omega (arith, same)) t4 in
    let t2 = unbroken_one 109 (101 ∷ 111 ∷ 102 ∷ 32 ∷ endpoint_text e) (λ same. omega (arith, same)) t3 in
    let t1 = unbroken_one 97 (109 ∷ 101 ∷ 111 ∷ 102 ∷ 32 ∷ endpoint_text e) (λ same. omega (arith, same)) t2 in
    unbroken_one 110 (97 ∷ 109 ∷ 101 ∷ 111 ∷ 102 ∷ 32 ∷ endpoint_text e) (λ same. omega (arith, same)) t1

line_of : (e : EndpointRecord) → IsEndpoint e → length (codes "nameof " ++ endpoint_text e) ≤ 4096 →
    IsLineOf (Store (NameOf e)) (codes "nameof " ++ endpoint_text e)
line_of e valid short = record { written = (valid, tt); text = refl; short = short }

named : (bytes past : List ℕ) (e : EndpointRecord) → length bytes ≤ 4096 → bytes ≡ codes "nameof " ++ past → IsEndpoint e
    → (past ≡ endpoint_text e) ⊎ (past ≡ endpoint_text e ++ 10 ∷ []) → IsCommandIn bytes (Store (NameOf e))
named bytes past e short is valid (inl whole) =
    let line = codes "nameof " ++ endpoint_text e in
    let same : bytes ≡ line = is ∙ ap (λ (r : List ℕ). codes "nameof " ++ r) whole in
    record {
      line = line;
      is = record { unbroken = unbroken_line e valid; text = inl same };
      stands =
          line_of e valid (omega (arith, short, ap length same));
    }
named bytes past e short is valid (inr ended) =
    let line = codes "nameof " ++ endpoint_text e in
    let same : bytes ≡ with_newline line = is ∙ ap (λ (r : List ℕ). codes "nameof " ++ r) ended in
    record {
      line = line;
      is = record { unbroken = unbroken_line e valid; text = inr same };
      stands =
          line_of e valid (omega (arith, short, ap length same, length-append line (10 ∷ [])));
    }

pub of_name : (bytes past : List ℕ) → length bytes ≤ 4096 → bytes ≡ codes "nameof " ++ past → (found : Option EndpointRecord)
    → IfSome found (λ e. IsEndpointAlone e past) → IfSome found (λ e. IsCommandIn bytes (Store (NameOf e)))
of_name bytes past short is None alone = tt
of_name bytes past short is (Some e) alone = named bytes past e short is alone.valid alone.text
