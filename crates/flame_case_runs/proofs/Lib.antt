mod Routed
