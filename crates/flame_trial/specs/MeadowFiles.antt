-- The files of the meadow that do not depend on a seed: its model and its function file.
use Rattle.std.specs.Prelude.{ℕ, List, [], ◌∷◌, codes}
use Rattle.std.specs.List.{concat}

-- the model file: one line [own]
abbrev pub model_text : List ℕ
model_text =
    concat (
    codes "{\"xmodel\":{\"environment\":{"
    ∷ codes "\"constants\":[{\"type\":\"int\",\"name\":\"cells\"},{\"type\":\"int\",\"name\":\"grass\"}],"
    ∷ codes "\"functionFiles\":[\"meadow.c\"]},"
    ∷ codes "\"messages\":["
    ∷ codes "{\"name\":\"rabbit_at\",\"variables\":[{\"type\":\"int\",\"name\":\"cell\"}]},"
    ∷ codes "{\"name\":\"fox_at\",\"variables\":[{\"type\":\"int\",\"name\":\"cell\"}]}],"
    ∷ codes "\"agents\":["
    ∷ codes "{\"name\":\"Rabbit\","
    ∷ codes "\"memory\":[{\"type\":\"int\",\"name\":\"cell\"},{\"type\":\"int\",\"name\":\"energy\"}],\"functions\":["
    ∷ codes "{\"name\":\"graze\",\"currentState\":\"start\",\"nextState\":\"grazed\","
    ∷ codes "\"outputs\":[{\"messageName\":\"rabbit_at\"}]},"
    ∷ codes "{\"name\":\"flee\",\"currentState\":\"grazed\",\"nextState\":\"end\","
    ∷ codes "\"inputs\":[{\"messageName\":\"fox_at\","
    ∷ codes "\"filter\":{\"lhs\":{\"value\":\"m.cell\"},\"op\":\"EQ\",\"rhs\":{\"value\":\"a.cell\"}}}]}]},"
    ∷ codes "{\"name\":\"Fox\","
    ∷ codes "\"memory\":[{\"type\":\"int\",\"name\":\"cell\"},{\"type\":\"int\",\"name\":\"energy\"}],\"functions\":["
    ∷ codes "{\"name\":\"prowl\",\"currentState\":\"start\",\"nextState\":\"prowled\","
    ∷ codes "\"outputs\":[{\"messageName\":\"fox_at\"}]},"
    ∷ codes "{\"name\":\"hunt\",\"currentState\":\"prowled\",\"nextState\":\"end\","
    ∷ codes "\"inputs\":[{\"messageName\":\"rabbit_at\","
    ∷ codes "\"filter\":{\"lhs\":{\"value\":\"m.cell\"},\"op\":\"EQ\",\"rhs\":{\"value\":\"a.cell\"}}}]}]}]}}\n"
    ∷ []
    )

-- the function file [own]
abbrev pub source_text : List ℕ
source_text =
    concat (
    codes "#include \"header.h\"\n"
    ∷ codes "int graze() {\n"
    ∷ codes "    ENERGY += GRASS;\n"
    ∷ codes "    add_rabbit_at_message(CELL);\n"
    ∷ codes "    return 0;\n"
    ∷ codes "}\n"
    ∷ codes "int flee() {\n"
    ∷ codes "    int foxes = 0;\n"
    ∷ codes "    START_FOX_AT_MESSAGE_LOOP\n"
    ∷ codes "        foxes++;\n"
    ∷ codes "    FINISH_FOX_AT_MESSAGE_LOOP\n"
    ∷ codes "    if (foxes > 0 && ENERGY % 2 == 0) return 1;\n"
    ∷ codes "    if (ENERGY >= 20) {\n"
    ∷ codes "        ENERGY = ENERGY / 2;\n"
    ∷ codes "        add_Rabbit_agent((CELL + 1) % CELLS, ENERGY);\n"
    ∷ codes "    }\n"
    ∷ codes "    return 0;\n"
    ∷ codes "}\n"
    ∷ codes "int prowl() {\n"
    ∷ codes "    ENERGY -= 1;\n"
    ∷ codes "    CELL = (CELL * 7 + 1) % CELLS;\n"
    ∷ codes "    add_fox_at_message(CELL);\n"
    ∷ codes "    return 0;\n"
    ∷ codes "}\n"
    ∷ codes "int hunt() {\n"
    ∷ codes "    int eaten = 0;\n"
    ∷ codes "    START_RABBIT_AT_MESSAGE_LOOP\n"
    ∷ codes "        if (eaten < 3) eaten++;\n"
    ∷ codes "    FINISH_RABBIT_AT_MESSAGE_LOOP\n"
    ∷ codes "    ENERGY += eaten;\n"
    ∷ codes "    if (ENERGY <= 0) return 1;\n"
    ∷ codes "    if (ENERGY >= 24) {\n"
    ∷ codes "        ENERGY = ENERGY / 2;\n"
    ∷ codes "        add_Fox_agent(CELL, ENERGY);\n"
    ∷ codes "    }\n"
    ∷ codes "    return 0;\n"
    ∷ codes "}\n"
    ∷ []
    )
