-- What several writes to a sink do.
use Rattle.std.proofs.Common.{◌≡◌, ℕ, ◌+◌, ◌<◌, ◌≤◌, List, [], ◌∷◌, ◌++◌, length, get_or, take, drop, Option, Some, None, Result, Ok, Err, OnErr, refl, sym, ap, ◌∙◌, subst, arith, append_assoc, append-nil, length-append, take-append-drop}
use Rattle.std.proofs.Math.Seq.{take-append-add}
use Rattle.std.proofs.lemmas.Grind.{flat_map-append}
use Rattle.std.proofs.lemmas.List.{take_all, take-append-le, take_more}
use Rattle.mpi_base.specs.declared.entries.Entry.{Entry}
use Rattle.history_text.specs.Text.{entry_text, journal_text}
use Rattle.std.specs.Io.KnownBytes.{append_known}
use Rattle.io_edge.specs.Sink.{Takes, TakesFront}
use Rattle.journal_out.specs.Output.{Collects}

-- two writes take what the first took and then what the second took
pub takes_both : (a b c : Option (List ℕ)) (xs ys : List ℕ) → Takes a xs b → Takes b ys c → Takes a (xs ++ ys) c
takes_both None b c xs ys p q = q ∙ ap (λ k. append_known k ys) p
takes_both (Some zs) b c xs ys p q = q ∙ ap (λ k. append_known k ys) p ∙ ap Some (append_assoc zs xs ys)

-- what was taken whole and then a front of what follows it is a front
pub takes_then_front : (a b c : Option (List ℕ)) (xs ys all : List ℕ) → all ≡ xs ++ ys → Takes a xs b → TakesFront b ys c → TakesFront a all c
takes_then_front a b c xs ys all e p q =
    let long : length xs + q.0 ≤ length all = rw (e, length-append xs ys) (omega (arith, q.1)) in
    let taken : Takes a (take (length xs + q.0) all) c = rw (e, take-append-add xs ys q.0) (takes_both a b c xs (take q.0 ys) p q.2) in
    (length xs + q.0, long, taken)

-- a front is also one where more follows
pub front_longer : (a b : Option (List ℕ)) (xs ys : List ℕ) → TakesFront a xs b → TakesFront a (xs ++ ys) b
front_longer a b xs ys q =
    let long : q.0 ≤ length (xs ++ ys) = rw (length-append xs ys) (omega (arith, q.1)) in
    let taken : Takes a (take q.0 (xs ++ ys)) b = rw (take-append-le q.0 xs ys q.1) q.2 in
    (q.0, long, taken)

-- the bytes written so far and those behind them are all, after one piece more
pub piece_more : (all front rest back : List ℕ) (n : ℕ) → all ≡ front ++ rest → back ≡ drop n rest → all ≡ (front ++ take n rest) ++ back
piece_more all front rest back n e d = rw (d, append_assoc, take-append-drop n rest) e

-- the line of an entry and its line feed
abbrev pub fed : Entry → List ℕ
fed e = entry_text e ++ 10 ∷ []

-- the text of the entries so far, with one entry more
pub journal_more : (es : List Entry) (i : ℕ) (e : Entry) → i < length es → e ≡ get_or es i e → journal_text (take (i + 1) es) ≡ journal_text (take i es) ++ fed e
journal_more es i e l is = rw (take_more es i e l, ← is, flat_map-append fed (take i es) (e ∷ []), append-nil (fed e)) refl

-- what holds anyway holds after an error
pub on_err : {A E P : Type 0} (r : Result A E) → P → OnErr r P
on_err (Ok x) p = tt
on_err (Err e) p = p

-- Lines that are collected before they are written

-- to take nothing changes nothing
pub takes_nothing : (a : Option (List ℕ)) → Takes a [] a
takes_nothing None = refl
takes_nothing (Some zs) = ap Some (sym (append-nil zs))

-- of a text a front was written, and a piece is the rest
abbrev pub Gone : Option (List ℕ) → List ℕ → Option (List ℕ) → List ℕ → Type 0
Gone before text after piece = (front : List ℕ) × Takes before front after × (front ++ piece ≡ text)

-- a line was put behind a piece with enough room, or behind one that was written
pub collects_behind : (a : Option (List ℕ)) (piece line left : List ℕ) → left ≡ piece ++ line → Collects a piece line a left
collects_behind a piece line left e = record { gone = []; taken = takes_nothing a; all = e }

pub collects_anew : (a b : Option (List ℕ)) (piece line left : List ℕ) → Takes a piece b → left ≡ line → Collects a piece line b left
collects_anew a b piece line left p e = record { gone = piece; taken = p; all = ap (λ (xs : List ℕ). piece ++ xs) e }

-- with one line more
pub gone_on : (a b c : Option (List ℕ)) (text piece line left : List ℕ) → Gone a text b piece → Collects b piece line c left → Gone a (text ++ line) c left
gone_on a b c text piece line left g m =
    let joined : (g.0 ++ m.gone) ++ left ≡ text ++ line = append_assoc g.0 m.gone left ∙ ap (λ (xs : List ℕ). g.0 ++ xs) m.all ∙ sym (append_assoc g.0 piece line) ∙ ap (λ (xs : List ℕ). xs ++ line) g.2 in
    (g.0 ++ m.gone, takes_both a b c g.0 m.gone g.1 m.taken, joined)

-- where the piece is written whole, or a front of it, the text is
pub gone_all : (a b c : Option (List ℕ)) (text piece seen : List ℕ) → Gone a text b piece → seen ≡ piece → Takes b seen c → Takes a text c
gone_all a b c text piece seen g e p = subst (λ (xs : List ℕ). Takes a xs c) (ap (λ (xs : List ℕ). g.0 ++ xs) e ∙ g.2) (takes_both a b c g.0 seen g.1 p)

pub gone_front : (a b c : Option (List ℕ)) (text piece seen : List ℕ) → Gone a text b piece → seen ≡ piece → TakesFront b seen c → TakesFront a text c
gone_front a b c text piece seen g e q = takes_then_front a b c g.0 seen text (sym g.2 ∙ ap (λ (xs : List ℕ). g.0 ++ xs) (sym e)) g.1 q

-- what was taken whole is a front, also where it is told later
pub whole_front : (a b c : Option (List ℕ)) (xs : List ℕ) → Takes a xs b → c ≡ b → TakesFront a xs c
whole_front a b c xs p e = let taken : Takes a (take (length xs) xs) c = rw (take_all (length xs) xs (omega arith)) (e ∙ p) in (length xs, omega arith, taken)

-- the text of all entries is that of the first so many, and of the others
pub journal_parts : (es : List Entry) (i : ℕ) → journal_text es ≡ journal_text (take i es) ++ journal_text (drop i es)
journal_parts es i = ap journal_text (sym (take-append-drop i es)) ∙ flat_map-append fed (take i es) (drop i es)

-- a front of the text of the first entries is one of the text of all
pub front_of_all : (a b : Option (List ℕ)) (es : List Entry) (i : ℕ) → TakesFront a (journal_text (take i es)) b → TakesFront a (journal_text es) b
front_of_all a b es i q = rw (journal_parts es i) (front_longer a b (journal_text (take i es)) (journal_text (drop i es)) q)
