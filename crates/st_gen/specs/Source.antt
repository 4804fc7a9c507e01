-- The generated source, line by line, with the number at its places.
use Rattle.std.specs.Prelude.{ℕ, List, [], ◌∷◌, ◌++◌, codes}
use Rattle.std.specs.Fmt.{decimal}
use Rattle.std.specs.List.{flat_map}

-- a line with the number in it
abbrev pub with_number : List ℕ → ℕ → List ℕ → List ℕ
with_number before n after = before ++ (decimal n ++ after)

-- the lines of the source: a thread that pushes onto a shared list, and one that plants a search tree, each so many times
abbrev pub source_lines : ℕ → List (List ℕ)
source_lines n =
    codes "class Node { val: int; next: Node; }"
    ∷ codes "class Tree { key: int; left: Tree; right: Tree; }"
    ∷ codes "class Root { top: Tree; }"
    ∷ codes "shared { list: Node; }"
    ∷ codes "pred sorted(n: Node): bool ="
    ∷ codes "  n == null || n.next == null || n.val <= n.next.val && sorted(n.next);"
    ∷ codes "pred ordered(n: Tree, lo: int, hi: int): bool ="
    ∷ codes "  n == null || lo <= n.key && n.key <= hi"
    ∷ codes "  && ordered(n.left, lo, n.key) && ordered(n.right, n.key, hi);"
    ∷ codes "proc push(v: int) {"
    ∷ codes "  var n: Node = new Node;"
    ∷ codes "  n.val = v;"
    ∷ codes "  n.next = shared.list;"
    ∷ codes "  shared.list = n;"
    ∷ codes "}"
    ∷ codes "proc insert(r: Root, k: int) {"
    ∷ codes "  var n: Tree = new Tree;"
    ∷ codes "  n.key = k;"
    ∷ codes "  var at: Tree = r.top;"
    ∷ codes "  if (at == null) {"
    ∷ codes "    r.top = n;"
    ∷ codes "  } else {"
    ∷ codes "    var going: bool = true;"
    ∷ codes "    while (going) {"
    ∷ codes "      if (k < at.key) {"
    ∷ codes "        var l: Tree = at.left;"
    ∷ codes "        if (l == null) { at.left = n; going = false; } else { at = l; }"
    ∷ codes "      } else {"
    ∷ codes "        var g: Tree = at.right;"
    ∷ codes "        if (g == null) { at.right = n; going = false; } else { at = g; }"
    ∷ codes "      }"
    ∷ codes "    }"
    ∷ codes "  }"
    ∷ codes "}"
    ∷ codes "thread lister {"
    ∷ codes "  var i: int = 1;"
    ∷ with_number (codes "  while (i <= ") n (codes ") {")
    ∷ with_number (codes "    push(") n (codes " - i);")
    ∷ codes "    if (i % 16 == 0) { check sorted(shared.list); }"
    ∷ codes "    i = i + 1;"
    ∷ codes "  }"
    ∷ codes "}"
    ∷ codes "thread planter {"
    ∷ codes "  var r: Root = new Root;"
    ∷ codes "  var i: int = 1;"
    ∷ codes "  var k: int = 0;"
    ∷ with_number (codes "  while (i <= ") n (codes ") {")
    ∷ codes "    k = (k * 4005 + 1) % 65536;"
    ∷ codes "    insert(r, k);"
    ∷ codes "    if (i % 16 == 0) { check ordered(r.top, 0, 65535); }"
    ∷ codes "    i = i + 1;"
    ∷ codes "  }"
    ∷ codes "}"
    ∷ []

-- the source: its lines, each with a newline at its end
unfoldable pub source_text : ℕ → List ℕ
source_text n = flat_map (λ one_line. one_line ++ codes "\n") (source_lines n)
