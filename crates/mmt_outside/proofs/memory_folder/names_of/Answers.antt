use Rattle.std.proofs.Common.{◌≡◌, ◌<◌, ◌≤◌, ◌∷◌, [], ◌++◌, length, get_or, take, map, cond, sym, ap, ◌∙◌, arith}
use Rattle.std.specs.String.{string_bytes}
use Rattle.std.proofs.lemmas.List.{length-map, map-append, take_all}
use Rattle.std.proofs.lemmas.List.Sums.{fold_more}
use Rattle.mmt_outside.specs.Folders.{read_file, read_files, with_file, names_in}
use Rattle.mmt_outside.proofs.Folders.{item_read}
use Rattle.mmt_outside.proofs.memory_folder.names_of.Goals as goal
use Rattle.mmt_outside.proofs.memory_folder.names_of.Goals.{then-is_further+in_ok-from_str+in_ok-add, else-is_further}

pub loop-file-preserved : goal.loop-file-preserved
loop-file-preserved c =
    let files = c.args.files.now in
    let folder = c.args.folder.now in
    let i = c.loop-file.file-index in
    let item = c.file-item.result in
    let file = read_file item in
    let before = map string_bytes c.loop-file.names in
    let is : item ≡ get_or files i item = c.file-item.is ∙ ap (λ l. get_or l i item) c.as_slice-file-items.ensures in
    let below : i < length (read_files files) = omega (arith, c.loop-file-test.true, ap length c.as_slice-file-items.ensures, length-map files read_file) in
    let more = fold_more (with_file folder) [] (read_files files) i file below ∙ ap (with_file folder (names_in folder (take i (read_files files)))) (item_read read_file files i item is) in
    let now = ap (λ names. with_file folder names file) c.loop-file.invariant ∙ sym more in
    elim c.if-is_further.branch [
      | then-is_further+in_ok-from_str+in_ok-add w ↦
          let name = w.in_ok-from_str.ensures.ok ∙ w.as_str.ensures.value in
          let adds = sym c.is_further.ensures ∙ w.if-is_further.true in
          ap (map string_bytes) (w.names-is ∙ w.in_ok-add.ensures.ok) ∙ map-append string_bytes c.loop-file.names (w.in_ok-from_str.field-0 ∷ [])
          ∙ ap (λ n. before ++ n ∷ []) name ∙ ap (λ b. cond b (before ++ file.name ∷ []) before) (sym adds) ∙ now
      | else-is_further w ↦
          let adds = sym c.is_further.ensures ∙ w.if-is_further.false in
          ap (map string_bytes) w.names-is ∙ ap (λ b. cond b (before ++ file.name ∷ []) before) (sym adds) ∙ now
    ]

pub returns : goal.returns
returns c =
    let files = c.args.files.now in
    let past : length (read_files files) ≤ c.loop-file.file-index = omega (arith, c.loop-file-test.false, ap length c.as_slice-file-items.ensures, length-map files read_file) in
    c.loop-file.invariant ∙ ap (names_in c.args.folder.now) (take_all c.loop-file.file-index (read_files files) past)
